mod FlatImages
