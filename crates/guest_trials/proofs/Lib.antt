mod ByteReplies
mod FlatImages
